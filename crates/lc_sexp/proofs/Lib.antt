mod Answered
pub mod Atoms
mod Builds
mod Classes
mod Cuts
pub mod Cutting
pub mod Exists
pub mod Faults
mod Fed
mod FedForms
mod Fills
mod Flats
pub mod Items
mod Limits
mod Nodes
pub mod Pieced
pub mod PrintedLemmas
mod Prints
pub mod Rows
pub mod Runs
mod Splits
mod Takings
pub mod Tokens
pub mod Unique
mod Walks
pub mod Whole
pub mod Text
