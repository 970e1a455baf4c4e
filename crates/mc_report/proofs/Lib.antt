pub mod Halving
pub mod Judging
pub mod Turns
pub mod Present
pub mod Texts
pub mod Members
pub mod Floats
