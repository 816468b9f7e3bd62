mod Places
mod FirstHints
mod Passing
mod Taken
mod Ending
mod CarriedHold
