pub mod Nodes
pub mod Forms
pub mod Samples
