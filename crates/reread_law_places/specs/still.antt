-- Probes and places.
pub mod Unplaced
pub mod Laws
