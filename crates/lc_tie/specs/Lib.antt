pub mod Tie
pub mod TieView
