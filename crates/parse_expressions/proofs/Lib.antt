pub mod Lists
pub mod Turns
pub mod Levels
pub mod Parts
pub mod Rooms
pub mod Allows
