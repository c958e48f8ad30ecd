pub mod Attempts
pub mod CallLoops
pub mod Choices
pub mod Peeks
