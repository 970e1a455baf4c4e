pub mod Heights
pub mod Lengths
pub mod Lists
pub mod Blocks
