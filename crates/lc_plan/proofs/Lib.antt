mod Parts
mod Fitting
