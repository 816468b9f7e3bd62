mod Shortened
