pub mod Graph
pub mod Paths
pub mod Masks
pub mod Laws
pub mod Samples
pub mod steps
