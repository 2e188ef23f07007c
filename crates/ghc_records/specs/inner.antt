-- What calls, invariants and lemmas cite, and no theorem: the other files can be read without these.
pub mod ChronicleCode
pub mod EntryCode
pub mod Handles
pub mod HistoryCode
pub mod NumberSet
pub mod RecordCode
pub mod Slots
pub mod StepNumbers
pub mod WrittenEntryCode
