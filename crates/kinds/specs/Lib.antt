pub mod Clock
pub mod Number
