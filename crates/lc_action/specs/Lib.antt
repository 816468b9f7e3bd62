pub mod Action
pub mod Telling
pub mod ActionView
