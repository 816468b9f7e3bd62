mod Back
mod Laid
mod Rows
mod Widths
mod Words
