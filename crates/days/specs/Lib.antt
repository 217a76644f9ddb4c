pub mod Day
pub mod Headers
pub mod Rig
pub mod Histories
pub mod Table
