pub mod Nodes
pub mod Roots
pub mod Conditions
pub mod Counts
pub mod Decisions
pub mod Laws
pub mod Seen
pub mod steps
