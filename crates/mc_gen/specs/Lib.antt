pub mod Source
pub mod Tests
pub mod Worked
