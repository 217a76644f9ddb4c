pub mod PutLaws
pub mod PartsLaws
pub mod NumbersLaws
pub mod SaysLaws
pub mod ChoiceLaws
pub mod FoldLaws
pub mod SearchLaws
