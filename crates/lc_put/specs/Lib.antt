pub mod Deep
pub mod Filling
pub mod NodeClosed
pub mod NodeReplacement
pub mod Put
pub mod PutNumbers
