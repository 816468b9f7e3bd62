pub mod Syntax
pub mod View
pub mod WellFormed
pub mod Places
pub mod Objects
pub mod Edges
pub mod EdgeView
