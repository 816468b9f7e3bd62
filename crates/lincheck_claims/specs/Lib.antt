pub mod Folders
pub mod Endings
