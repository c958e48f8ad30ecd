-- Lemmas on the lexical grammar and on the lexer.
pub mod Flat
pub mod Nests
pub mod Steps
pub mod Unique
pub mod Blanks
pub mod Cuts
pub mod Runs
pub mod Only
pub mod Laws
pub mod Visible
pub mod Explained
