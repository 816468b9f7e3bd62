pub mod Near
pub mod NodeChains
pub mod NodeTables
pub mod Nodes
pub mod Rows
pub mod Tables
