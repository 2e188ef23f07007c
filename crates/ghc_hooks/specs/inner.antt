-- What calls, invariants and lemmas cite, and no theorem: the other files can be read without these.
pub mod FaceCode
pub mod FaultCode
pub mod FewGoals
pub mod Found
pub mod Kinds
pub mod Looks
pub mod Parts
pub mod TriesCode
pub mod Unblocked
