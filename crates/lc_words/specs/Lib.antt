pub mod Commands
pub mod Tasks
pub mod Reading
pub mod Tables
pub mod Limits
