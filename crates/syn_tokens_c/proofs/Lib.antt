mod Flattening
mod Handles
mod Judging
mod Lexing
mod Loosened
mod Opening
