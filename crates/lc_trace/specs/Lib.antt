pub mod Changes
pub mod Replays
pub mod Lines
pub mod Traces
