mod Once
mod Linearized
pub mod Refuted
