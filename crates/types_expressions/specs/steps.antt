pub mod Callees
pub mod Gathered
pub mod Names
pub mod Making
pub mod Operations
