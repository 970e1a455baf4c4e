pub mod Fitting
pub mod Short
