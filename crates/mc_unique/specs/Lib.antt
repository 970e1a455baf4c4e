pub mod Unique
pub mod Laws
pub mod Samples
pub mod steps
