mod Binders
mod Rows
pub mod Variables
pub mod PrintedTrees
pub mod Numerals
pub mod Printed
pub mod ReadBack
pub mod ReadHolds
pub mod Kept
mod Stores
