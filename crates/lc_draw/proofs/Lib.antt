mod Plainness
mod Written
mod Turning
mod Stretching
mod Drawn
mod Parts
