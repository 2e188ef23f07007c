-- What calls, invariants and lemmas cite, and no theorem: the other files can be read without these.
pub mod CommandLine
pub mod Ending
pub mod Outputs
pub mod Refusal
pub mod RefusedPart
pub mod Running
pub mod Status
pub mod Texts
pub mod Workers
