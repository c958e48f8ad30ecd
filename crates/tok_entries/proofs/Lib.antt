mod Blamed
mod BlamedOnce
mod Closings
mod Fillings
mod Fronts
mod Groups
mod Laid
mod Leading
mod Leaves
mod Lexed
mod Once
mod Reading
mod Showing
mod Splits
pub mod Steps
mod Words
