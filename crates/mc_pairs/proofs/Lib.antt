pub mod Turned
pub mod Steps
pub mod Least
pub mod Influential
