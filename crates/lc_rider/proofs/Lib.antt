pub mod Riding
pub mod PathLaw
pub mod PathTaken
pub mod Lists
pub mod PathLater
mod Placed
mod Saying
mod Reading
mod Guarding
pub mod PathSteps
mod PathParts
mod Marked
mod MarkStores
mod Assigned
mod Ridden
mod PathsAdded
mod SaidStill
mod SaidTerms
mod BranchesTaken
