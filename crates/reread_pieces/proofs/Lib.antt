pub mod Steps
pub mod Backwards
