pub mod Viewed
mod Evaluated
pub mod Only
pub mod Deciding
mod LeftIn
mod Stored
mod Apart
