pub mod Words
pub mod Vectors
pub mod Paths
pub mod Names
