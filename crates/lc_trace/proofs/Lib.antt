mod Changing
mod Tracing
mod Replaying
mod Joined
