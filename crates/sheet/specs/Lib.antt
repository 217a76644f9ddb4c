pub mod Sheet
pub mod Rules
pub mod Find
pub mod Rows
pub mod Test
