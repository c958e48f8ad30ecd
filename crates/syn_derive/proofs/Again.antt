-- What is written of a parsed value is parsed again as the same one.
pub mod Alike
pub mod Parts
pub mod Metas
pub mod Fields
pub mod Items
pub mod Written
pub mod Values
