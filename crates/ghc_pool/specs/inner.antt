-- What calls, invariants and lemmas cite, and no theorem: the other files can be read without these.
pub mod Answers
pub mod Fair
pub mod Gathered
pub mod Manners
pub mod Meeting
pub mod Opened
pub mod Plans
pub mod Stops
pub mod Stretches
pub mod Survey
pub mod Told
pub mod Turns
pub mod Workers
