pub mod TableLaws
pub mod Sizes
