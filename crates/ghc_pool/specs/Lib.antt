pub mod Runs
pub mod Laws
pub mod Modes
pub mod inner
