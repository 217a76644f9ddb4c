pub mod Records
pub mod Next
pub mod Places
