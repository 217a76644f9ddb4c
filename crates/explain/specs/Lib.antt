pub mod Headings
pub mod Closings
