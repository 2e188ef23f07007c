pub mod DistinctLemmas
pub mod Rising
pub mod Counts
pub mod Tests
pub mod Numbers
pub mod Merged
pub mod FirstArguments
pub mod Repeated
pub mod Clauses
pub mod FreshVariables
pub mod Faults
mod Words
