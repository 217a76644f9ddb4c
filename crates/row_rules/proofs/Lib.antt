pub mod OnceLaws
pub mod SeatLaws
pub mod FarmLaws
