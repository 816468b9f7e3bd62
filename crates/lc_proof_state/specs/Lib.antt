pub mod Opened
pub mod Standing
pub mod Walk
pub mod Failing
pub mod Instance
pub mod Situation
pub mod Told
