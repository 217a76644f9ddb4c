pub mod Sheet
pub mod Replies
pub mod Contracts
