pub mod WriteLoop
pub mod Rows
pub mod ReadLoop
pub mod WordLemmas
pub mod StepLines
pub mod TextBehind
pub mod SessionLoop
mod SessionFirings
pub mod StepReplies
pub mod ObeyReplies
pub mod Settling
pub mod RecordLines
pub mod NumberedWords
pub mod PredicateWordLemmas
pub mod GivenNames
pub mod CauseReplies
pub mod ExplainReplies
mod FoundReplies
pub mod PartReplying
pub mod BlameReplying
pub mod LookReplies
pub mod EffectReplies
pub mod Ordering
pub mod Answering
pub mod LineMemory
pub mod Spying
pub mod RunLines
pub mod RunCommands
pub mod ListedLines
pub mod ListedGoals
mod WholeListings
pub mod Parting
pub mod Keeping
pub mod KeptAlone
mod Served
mod ScheduleSaid
mod SchedulePlays
mod CitedWords
