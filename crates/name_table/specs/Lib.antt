pub mod Tables
pub mod Taken
pub mod Latest
pub mod Indexed
