pub mod Looks
pub mod Watched
