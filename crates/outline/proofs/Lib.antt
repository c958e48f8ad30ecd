mod Moves
mod Steps
