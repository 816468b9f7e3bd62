pub mod Chosen
pub mod Matched
pub mod Resolving
pub mod Crossing
pub mod InScope
pub mod Scoped
pub mod PathTotal
mod Limited
pub mod Names
