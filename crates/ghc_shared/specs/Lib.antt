pub mod Rule
pub mod Passes
pub mod Receipts
pub mod Places
pub mod inner
