mod Counts
mod Parts
mod Places
mod Behind
mod Apart
pub mod Named
pub mod Resolved
pub mod Ways
mod Placed
mod Argued
