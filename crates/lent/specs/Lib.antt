pub mod Lent
pub mod Gate
pub mod Served
