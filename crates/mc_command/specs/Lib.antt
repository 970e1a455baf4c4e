pub mod Command
pub mod Line
pub mod Seen
pub mod Usage
pub mod Values
