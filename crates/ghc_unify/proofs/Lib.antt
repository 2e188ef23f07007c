pub mod Ends
pub mod Locality
pub mod Extension
pub mod Bound
pub mod Commute
pub mod SolutionLemmas
pub mod Acyclic
pub mod Once
pub mod LawProofs
pub mod Agree
pub mod FactProofs
pub mod Advancing
pub mod Falling
pub mod FirstEquation
pub mod Growth
pub mod Noted
pub mod MetPairs
pub mod ByPairs
pub mod Partings
pub mod Refusals
pub mod Runs
pub mod Scope
pub mod Stacks
pub mod TopAgreement
pub mod Reached
pub mod Endings
mod Gaps
mod Words
