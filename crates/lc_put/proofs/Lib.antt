mod NodeReplacement
mod ReplacedStores
pub mod ByNumber
mod NodeClosed
mod Unmoved
mod Entries
mod Remembered
mod Filled
