pub mod Shown
pub mod Kept
pub mod Laws
pub mod steps
