mod Trees
mod Steps
mod Ways
mod Apart
mod Instances
mod Refuted
