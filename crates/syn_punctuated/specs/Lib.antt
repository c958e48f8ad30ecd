pub mod Adds
pub mod Faults
pub mod Hashed
pub mod Lends
pub mod Lent
pub mod Lists
pub mod NestedLists
pub mod PairLends
pub mod Paired
pub mod Pairs
pub mod Parts
pub mod Printed
pub mod Progress
pub mod ReadBack
pub mod Retained
pub mod TakeLists
pub mod Trees
pub mod Turns
pub mod Weighing
pub mod Private
pub use Rattle.tok_core.specs.Forest
pub use Rattle.tok_buffer.specs.Cursors
pub use Rattle.tok_buffer.specs.Progress as CursorProgress
pub use Rattle.syn_parse.specs.Faults as StreamFaults
pub use Rattle.syn_parse.specs.State
