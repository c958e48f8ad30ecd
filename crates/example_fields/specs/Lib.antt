pub mod Ends
pub mod Inputs
pub mod Ranges
pub mod Tables
