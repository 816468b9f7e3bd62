pub mod Rising
pub mod Refusals
mod Atoms
mod ProofAtoms
mod Back
mod Places
mod Behind
mod Written
pub mod Spelled
mod Kept
mod Sized
mod FormSteps
pub mod Pieces
mod OneByOne
mod Alone
