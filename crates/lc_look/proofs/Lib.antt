mod Fitting
mod Numbers
mod Ranging
mod Seeing
mod Trying
