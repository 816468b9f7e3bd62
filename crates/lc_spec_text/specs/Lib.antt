pub mod Scopes
pub mod Branches
pub mod Choices
pub mod Operations
pub mod Specifications
pub mod Seen
pub mod ScopeView
