pub mod Values
pub mod Tests
pub mod Passes
