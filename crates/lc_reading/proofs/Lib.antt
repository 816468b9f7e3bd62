pub mod Words
pub mod Order
pub mod Combined
pub mod SoFar
pub mod Sections
pub mod Listed
pub mod Holding
pub mod Places
mod Entries
mod Noted
pub mod Files
pub mod Fine
pub mod Parts
pub mod Results
