mod Unfinished
mod Scripts
mod Turns
mod Ends
mod Crossing
