pub mod Runs
pub mod Leading
pub mod Cutting
