pub mod Lines
pub mod Giving
pub mod Once
pub mod Left
