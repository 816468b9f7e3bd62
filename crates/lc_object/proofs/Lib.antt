mod Passing
mod EdgeRows
pub mod ObjectParts
