pub mod Answers
pub mod Parsed
