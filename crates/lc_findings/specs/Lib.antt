pub mod Printed
pub mod Findings
pub mod Bare
