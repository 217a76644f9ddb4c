pub mod Open
pub mod Settled
pub mod Calls
pub mod Long
pub mod Moves
pub mod Roomy
