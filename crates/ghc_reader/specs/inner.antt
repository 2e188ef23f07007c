-- What calls, invariants and lemmas cite, and no theorem: the other files can be read without these.
pub mod Front
pub mod Parts
pub mod Scope
pub mod Views
pub mod WrittenCode
