pub mod Excerpt
pub mod Items
pub mod Lines
pub mod Open
pub mod Place
