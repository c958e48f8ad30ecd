-- Definitions that only contracts of private items cite.
pub mod Boxes
pub mod Pieces
