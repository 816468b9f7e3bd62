pub mod Places
mod Picked
mod Calls
pub mod Order
mod Checks
pub mod Naming
mod Preceded
mod Replays
pub mod Tables
pub mod Turns
pub mod OneJudgement
mod Following
