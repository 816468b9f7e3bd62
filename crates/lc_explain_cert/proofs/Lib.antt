mod Bounds
mod Parted
