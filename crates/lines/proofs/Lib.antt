pub mod TextLaws
pub mod LinesLaws
