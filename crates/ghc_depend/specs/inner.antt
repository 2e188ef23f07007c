-- What calls, invariants and lemmas cite, and no theorem: the other files can be read without these.
pub mod Places
pub mod Sources
