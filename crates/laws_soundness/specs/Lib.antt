pub mod Growth
pub mod Fits
pub mod Blocks
pub mod Plain
pub mod Laws
