pub mod Acted
pub mod Refused
