pub mod Halts
pub mod Playing
pub mod Members
pub mod Phases
pub mod Ran
pub mod Turns
