pub mod SaidLaws
pub mod BookLaws
pub mod FillLaws
pub mod PickLaws
pub mod SentenceLaws
pub mod LengthLaws
