mod Rows
mod Lists
mod Filled
mod Calls
mod Names
mod Drops
