pub mod Layout
pub mod Walking
