pub mod Clause
pub mod Variables
pub mod Flat
pub mod Checked
pub mod Numbers
pub mod Samples
pub mod inner
