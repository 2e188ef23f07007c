-- What calls, invariants and lemmas cite, and no theorem: the other files can be read without these.
pub mod Ends
pub mod First
pub mod Guarding
pub mod Meeting
pub mod Places
pub mod Refusing
pub mod Small
pub mod Stands
pub mod Tasks
pub mod Told
