mod Rows
pub mod TermNodes
pub mod FormulaNodes
mod Tables
pub mod Later
mod Found
mod Taken
pub mod Listed
pub mod Chained
