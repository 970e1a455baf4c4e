pub mod Tree
pub mod Order
pub mod Vectors
pub mod Influence
pub mod Laws
pub mod steps
