pub mod Attempts
pub mod Acting
pub mod Left
pub mod NoAction
