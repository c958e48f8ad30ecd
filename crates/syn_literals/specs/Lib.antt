pub mod Kinds
pub mod Signed
pub mod TakeLiterals
pub mod TextValues
