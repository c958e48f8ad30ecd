pub mod Depth
mod Equality
pub mod Exactly
pub mod ExactTokens
mod Hashes
mod Inserts
pub mod IterRuns
pub mod ListShapes
pub mod ListTakes
pub mod Mapped
mod PairedUp
mod PairsAdded
mod Progress
mod ReadBack
mod ReadTokens
mod RetainSteps
mod Retold
mod Runs
mod TakeTurns
mod TakenRuns
mod Taken
mod Trailing
mod TreesPassed
pub mod WithValue
pub mod Writes
