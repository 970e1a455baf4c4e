pub mod Killers
pub mod Lines
pub mod Laws
pub mod Seen
pub mod steps
