pub mod Sources
pub mod Seen
pub mod Words
pub mod Tests
pub mod Statements
pub mod Calls
pub mod Stops
pub mod Lines
