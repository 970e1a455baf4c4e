pub mod Given
pub mod Least
pub mod Told
