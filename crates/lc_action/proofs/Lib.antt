pub mod Columns
mod Entries
mod Tellable
pub mod OwnUpdates
