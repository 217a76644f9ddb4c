pub mod MessageLaws
pub mod EntryLaws
pub mod LengthLaws
