pub mod Computing
pub mod Ranges
pub mod Looking
