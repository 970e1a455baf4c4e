pub mod SoMany
pub mod Ones
pub mod Sets
pub mod Looks
