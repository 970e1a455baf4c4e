pub mod Traced
pub mod Seen
