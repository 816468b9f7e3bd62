mod Tables
mod Walks
mod Numbers
mod Workers
mod Ranges
mod Plain
pub mod Faults
mod Found
