mod Standing
mod Growing
pub mod Calling
mod Lawfully
mod Happened
mod Few
pub mod Turns
mod Ending
mod SeatLists
mod Reasons
mod Together
pub mod Crossing
