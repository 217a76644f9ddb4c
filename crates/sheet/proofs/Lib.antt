pub mod Order
pub mod RulesLaws
pub mod LengthLaws
pub mod FarmsLaws
pub mod FindLaws
pub mod RowsLaws
pub mod Example
pub mod TestLaws
