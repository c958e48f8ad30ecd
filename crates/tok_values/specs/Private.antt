-- Definitions that only contracts of private items cite.
pub mod Plain
pub mod Tails
