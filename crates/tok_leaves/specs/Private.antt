-- Definitions that only contracts of private items cite.
pub mod Front
pub mod Kept
pub mod Plain
