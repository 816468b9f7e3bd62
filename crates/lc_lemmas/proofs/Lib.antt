pub mod Booleans
pub mod Bytes
pub mod Lists
pub mod Numbers
pub mod Options
