pub mod Mapped
pub mod PlacedProbes
