pub use Rattle.tok_core.specs.Erase
pub use Rattle.arguments.specs.Grammar
pub use Rattle.arguments.specs.Results
