pub mod Located
pub mod Told
