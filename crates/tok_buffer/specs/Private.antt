-- Definitions that only contracts of private items cite.
pub mod Counts
pub mod Layout
pub mod OrderLaws
pub mod Steps
