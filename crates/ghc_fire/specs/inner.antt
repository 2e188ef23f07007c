-- What calls, invariants and lemmas cite, and no theorem: the other files can be read without these.
pub mod ActCode
pub mod AskedCode
pub mod Calls
pub mod EffectCode
pub mod FiringCode
pub mod GoalsCode
pub mod Made
pub mod MadeCode
pub mod Renaming
pub mod Tail
