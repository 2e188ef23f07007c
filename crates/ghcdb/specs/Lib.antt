-- The definitions of this crate.
pub mod Start
pub mod Opening
pub mod Sessions
pub mod Saving
pub mod Tellable
pub mod HistoryFront
pub mod ProgramText
pub mod inner
