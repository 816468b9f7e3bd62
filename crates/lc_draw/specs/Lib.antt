pub mod Elements
pub mod Shapes
pub mod Drawings
pub mod Stretches
pub mod Counting
