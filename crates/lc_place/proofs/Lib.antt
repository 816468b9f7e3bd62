mod Depths
mod Items
mod Opened
mod Preorder
mod Spans
mod Tokens
mod Texts
mod Windows
