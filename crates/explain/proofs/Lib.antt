pub mod HeadingLaws
pub mod LengthLaws
