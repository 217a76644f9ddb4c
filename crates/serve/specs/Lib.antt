pub mod Ready
pub mod Moved
