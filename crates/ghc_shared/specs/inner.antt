-- What calls, invariants and lemmas cite, and no theorem: the other files can be read without these.
pub mod AtOnce
pub mod Calls
pub mod ItemCode
pub mod Logs
pub mod Openings
