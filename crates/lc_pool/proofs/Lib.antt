mod Frames
mod Known
mod Desks
mod Verdicts
mod Crossing
