pub use Rattle.tok_core.specs.Erase
pub use Rattle.tok_pruned.specs.Pruned
pub mod Visible
