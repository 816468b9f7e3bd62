pub mod Answering
mod Noted
