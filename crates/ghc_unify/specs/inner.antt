-- What calls, invariants and lemmas cite, and no theorem: the other files can be read without these.
pub mod Parting
pub mod Steps
pub mod Met
