pub mod Scripts
pub mod Stages
pub mod Laws
