pub mod RowLayout
pub mod RowBytes
