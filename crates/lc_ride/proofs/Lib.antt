mod Cells
mod Taking
mod Deeding
mod Wherever
mod Agreeing
mod InOrder
mod Writing
