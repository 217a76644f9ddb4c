pub mod RowsLaws
pub mod SeatedLaws
