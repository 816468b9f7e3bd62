mod Firsts
mod Among
mod Refuting
