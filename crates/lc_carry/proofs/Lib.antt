mod Least
mod PartByPart
mod Between
pub mod Few
mod Parts
mod Chosen
mod Keys
mod Cuts
mod Noted
mod Derives
mod Chains
mod Under
mod Branches
mod Moved
mod MovedForms
mod MovedSteps
mod Extended
