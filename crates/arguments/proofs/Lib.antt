pub mod Formed
mod Grammar
pub mod Outcomes
mod Returned
