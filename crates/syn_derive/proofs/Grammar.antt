-- What is parsed is what the grammar has, in both directions.
pub mod Runs
pub mod Paths
pub mod Visibilities
pub mod Attributes
pub mod NestedMetas
pub mod Fields
pub mod Items
