pub mod Unmarked
pub mod Pages
pub mod Stored
