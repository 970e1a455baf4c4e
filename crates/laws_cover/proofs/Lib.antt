pub mod Runs
pub mod Counted
pub mod Sums
pub mod Worked
