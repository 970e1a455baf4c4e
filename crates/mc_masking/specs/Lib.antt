pub mod Masking
pub mod Laws
pub mod Samples
