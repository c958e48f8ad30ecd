mod ByText
mod IdentFaults
mod Kept
pub mod Literals
pub mod Names
mod Plain
mod Quoting
