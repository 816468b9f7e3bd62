pub mod Shorts
pub mod Answers
pub mod ShortView
pub mod Completing
