mod Plainly
