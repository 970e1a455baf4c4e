pub mod Fitting
pub mod Signed
mod Taken
mod Carried
