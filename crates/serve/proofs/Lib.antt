pub mod BlockLaws
pub mod MovedLaws
pub mod ServeLaws
pub mod SaidLaws
pub mod CallsLaws
