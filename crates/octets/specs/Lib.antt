pub mod Choice
pub mod Numbers
pub mod Put
pub mod Parts
pub mod Says
pub mod Fold
pub mod Search
