pub mod LengthLaws
pub mod MessageLaws
