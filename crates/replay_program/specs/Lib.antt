pub mod CommandText
pub mod Comparison
pub mod Failures
pub mod Faults
pub mod Input
pub mod Outcomes
pub mod Output
pub mod Program
