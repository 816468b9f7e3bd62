pub mod Names
pub mod State
