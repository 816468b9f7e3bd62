mod Finding
mod Refuting
