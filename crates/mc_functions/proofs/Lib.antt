pub mod Firsts
pub mod Standing
pub mod Rows
pub mod Adding
pub mod Hundredths
pub mod Writing
