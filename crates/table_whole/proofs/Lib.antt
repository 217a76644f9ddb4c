pub mod WholeLaws
pub mod WholeTest
pub mod PartsYield
