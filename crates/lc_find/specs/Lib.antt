pub mod Faults
pub mod Certified
pub mod Hinted
pub mod FirstProofs
pub mod FirstView
pub mod Taken
pub mod Found
pub mod GetsCarried
