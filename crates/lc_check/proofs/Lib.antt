pub mod LeastExtra
pub mod OneVerdict
pub mod InTurn
pub mod Walking
pub mod Stepping
mod Derived
pub mod Answered
pub mod AcceptedObjects
