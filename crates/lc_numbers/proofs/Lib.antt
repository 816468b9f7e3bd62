mod Parsed
mod Wholes
