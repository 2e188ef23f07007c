-- What calls, invariants and lemmas cite, and no theorem: the other files can be read without these.
pub mod Answered
pub mod Device
pub mod Found
pub mod KeepingCode
pub mod OnlyWrites
pub mod Script
pub mod Told
pub mod WritesTold
