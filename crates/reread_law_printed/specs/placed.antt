-- The places of the parts of a text with probes.
pub mod Needs
pub mod Separate
pub mod Heads
pub mod Laws
