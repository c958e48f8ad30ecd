-- The lexical grammar: the forest that a text reads as, or the place and kind of its error.
pub mod Errors
pub mod Items
pub mod Meaning
pub mod Outcome
pub mod Reading
pub mod Laws
