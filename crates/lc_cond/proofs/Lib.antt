mod PartsList
pub mod Adding
mod Made
mod Replacing
mod Held
mod Scening
mod Ridden
mod Columned
mod Counted
mod Entered
mod Crossed
mod Parted
pub mod Streamed
mod Drained
mod Stretched
mod Numbered
mod Stored
mod Counts
pub mod Sized
mod VariableCounts
mod Few
mod FewParts
mod Elements
mod Below
mod BelowStores
mod BelowPaths
mod BelowCode
pub mod BelowConditions
mod CounterCount
mod OwnVariables
mod Updated
