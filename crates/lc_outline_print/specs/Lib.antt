pub mod Naming
pub mod Parts
pub mod Specifications
pub mod Beside
pub mod Instructions
pub mod Objects
pub mod Developments
