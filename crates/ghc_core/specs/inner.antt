-- What calls, invariants and lemmas cite, and no theorem: the other files can be read without these.
pub mod ArrangementCode
pub mod AskedAgain
pub mod Carried
pub mod CoreCode
pub mod CutOut
pub mod GoneCode
pub mod StreamGoals
