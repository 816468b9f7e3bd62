mod Wider
mod Replying
mod Telling
mod Ridden
mod Seen
mod Advanced
mod Begun
mod Started
