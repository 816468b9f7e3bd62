pub mod Lists
pub mod Chained
pub mod Stable
pub mod Truth
pub mod Replacement
pub mod Substituted
pub mod Each
pub mod Views
pub mod Replaced
pub mod Under
mod Numbers
mod Cells
pub mod Evaluated
pub mod Closed
pub mod Agree
mod Written
pub mod Stores
pub mod Symbolic
pub mod Depths
pub mod Weaker
pub mod Entries
