pub mod Identifiers
mod Numbers
mod Puncts
mod Reserved
pub mod Seen
mod Views
pub mod Words
