pub mod Enough
pub mod Needed
