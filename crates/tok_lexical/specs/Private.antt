-- Definitions that only contracts of private items cite.
pub mod Finds
pub mod Fronts
pub mod Scans
pub mod Starts
