pub mod Limits
pub mod Line
pub mod Name
pub mod NameText
pub mod Refusal
