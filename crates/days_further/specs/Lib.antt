pub mod Entries
pub mod Further
