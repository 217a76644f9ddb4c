pub mod Messages
pub mod Entries
