pub mod Did
pub mod Decides
