-- Walks of forests that differ only in invisible groups.
pub mod Choices
pub mod EnoughTurns
pub mod KindReads
pub mod KindsAlike
pub mod ListTurns
pub mod Steps
pub mod Streams
pub mod Whole
