pub mod ActionsKnown
pub mod BesideScoped
mod Capped
pub mod ChoicesKnown
mod Ground
pub mod OnsLimited
mod Parts
mod PathsCounted
mod Placed
pub mod ReadsScoped
pub mod RidersKnown
