-- Definitions that only contracts of private items cite.
pub mod Laid
pub mod Parts
pub mod Steps
