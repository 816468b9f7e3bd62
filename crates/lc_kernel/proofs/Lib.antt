pub mod Views
mod Numbered
mod Entries
mod Quotients
pub mod InUse
pub mod Found
mod Holding
mod Kept
pub mod Sound
mod Decided
mod Once
mod Grows
pub mod First
pub mod Branches
pub mod Checked
mod Stores
