pub mod Known
mod RowWrites
pub mod Lengths
pub mod ArrayColumns
mod Going
mod Instructions
pub mod Promised
pub mod Stepping
pub mod Worlds
pub mod EdgeLaw
pub mod Bodies
pub mod Over
mod Sums
