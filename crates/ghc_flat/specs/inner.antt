-- What calls, invariants and lemmas cite, and no theorem: the other files can be read without these.
pub mod ClauseCode
pub mod Counting
pub mod Firsts
pub mod Index
pub mod Refused
