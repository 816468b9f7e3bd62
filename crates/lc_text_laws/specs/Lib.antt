pub mod Spellings
pub mod CodeSpelled
pub mod KnownSpelled
pub mod ReadsBack
pub mod Counted
