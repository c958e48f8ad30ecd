mod Agreements
mod Comparing
mod Punctuations
mod Messages
pub mod Views
mod Walk
