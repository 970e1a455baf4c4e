pub mod Nodes
pub mod Gathered
pub mod Members
pub mod Calls
pub mod Steps
