pub mod Needs
pub mod Seen
