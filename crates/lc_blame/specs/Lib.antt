pub mod Blame
pub mod Attempts
