mod Befores
pub mod Between
mod BetweenAt
mod CompileErrorLoops
mod Counted
mod Descents
mod Enclosing
mod Entered
pub mod Followed
mod Forests
mod Groups
mod InScope
mod Joined
mod Layouts
mod Lefts
mod Levels
mod Measured
pub mod Onwards
mod Peeks
mod PunctRuns
mod Reading
mod Rests
mod Scans
pub mod ScopeEnds
mod Spanned
mod Spots
mod Stacks
mod Steps
pub mod View
