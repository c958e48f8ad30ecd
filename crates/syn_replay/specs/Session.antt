-- A replay: its streams, what a command does to them, and the walk over all commands.
pub mod State
pub mod Reading
pub mod Entering
pub mod Step
pub mod Acceptance
pub mod Walk
pub mod Promises
pub mod Stream
pub mod Streams
pub mod Links
pub mod Receivers
pub mod Rooms
