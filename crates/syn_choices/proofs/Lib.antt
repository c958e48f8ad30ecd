mod Attempts
mod CallLoops
mod Choices
mod Turns
