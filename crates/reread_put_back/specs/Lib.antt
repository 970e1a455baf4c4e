pub mod Rows
pub mod Pens
pub mod Sums
pub mod Back
pub mod Faults
pub mod Worked
pub mod steps
