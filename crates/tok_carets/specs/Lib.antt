pub mod Lines
pub mod Shown
pub use Rattle.tok_leaves.specs.Spans
pub use Rattle.tok_buffer.specs.Messages
