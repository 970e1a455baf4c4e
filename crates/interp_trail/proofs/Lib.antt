pub mod Based
pub mod Worked
