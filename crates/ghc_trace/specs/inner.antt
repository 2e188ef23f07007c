-- What calls, invariants and lemmas cite, and no theorem: the other files can be read without these.
pub mod Backward
pub mod BlameCode
pub mod BlameLinesCode
pub mod DisturbedCode
pub mod Gathering
pub mod GoalLinesCode
pub mod NewsCode
pub mod OtherClausesCode
pub mod PartsCode
pub mod PortCode
pub mod SpiesCode
pub mod SpyKeys
pub mod WhyNotCode
