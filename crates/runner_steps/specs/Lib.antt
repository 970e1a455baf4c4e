pub mod Workers
pub mod Compared
