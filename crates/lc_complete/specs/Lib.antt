pub mod Making
pub mod Noted
