pub mod Unprobed
pub mod steps
pub mod Worked
