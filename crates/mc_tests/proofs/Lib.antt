pub mod ByName
pub mod Names
pub mod Adding
pub mod Counts
pub mod Records
pub mod Fitting
