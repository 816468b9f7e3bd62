pub mod Numbers
mod Faults
mod Products
mod Weights
mod Ids
mod Entries
mod Atoms
mod Multiples
mod Distinct
mod Adding
mod Parts
pub mod Sums
pub mod Division
mod Quotients
mod Meaning
pub mod Refutes
mod Sameness
pub mod InTables
mod Made
mod PartForms
mod Owing
mod Loads
