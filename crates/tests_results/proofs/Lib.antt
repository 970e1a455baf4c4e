pub mod Short
pub mod Fitting
