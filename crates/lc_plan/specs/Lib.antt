pub mod Limits
pub mod Plans
pub mod Numbers
pub mod Readings
pub mod View
pub mod Counted
pub mod Fitting
