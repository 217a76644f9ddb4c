pub mod RowLaws
pub mod RangeLaws
