mod Own
mod Legal
mod Kept
mod Cuts
mod Linearized
mod Rows
mod RowChanges
mod Book
mod Steps
pub mod Ordered
mod Leaving
pub mod Standing
pub mod Once
mod Headline
mod Rideable
mod Lifting
mod Going
mod Frames
mod Stable
mod Acting
mod Others
mod Gone
mod Arrived
mod Calling
mod Simulated
mod Relying
mod Guaranteed
mod EdgeTaken
mod Ordinary
pub mod Lifted
mod CounterResolved
mod Counting
mod Losing
mod Helping
pub mod Proven
mod Choosing
