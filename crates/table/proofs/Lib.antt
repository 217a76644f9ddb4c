pub mod ListLaws
pub mod LineLaws
pub mod BlockLaws
pub mod RowStores
pub mod MarkLaws
pub mod ArrayLaws
pub mod Example
