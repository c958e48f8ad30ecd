pub mod Ended
pub mod Limits
pub mod NamedTypes
pub mod Runs
pub mod Shapes
