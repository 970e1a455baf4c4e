pub mod Fronts
pub mod Figures
pub mod TestLines
pub mod BitLines
pub mod Heads
pub mod Wholes
pub mod FirstLines
