pub mod Table
pub mod Paths
pub mod Answered
