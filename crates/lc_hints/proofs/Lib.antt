mod Joined
mod Giving
mod Parts
mod Kept
pub mod Answered
