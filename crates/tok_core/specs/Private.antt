-- Definitions that only contracts of private items cite.
pub mod Alikes
pub mod Attribute
pub mod Built
pub mod Cuts
pub mod Excess
pub mod Halted
pub mod Pending
pub mod Taken
pub mod TreeFalls
