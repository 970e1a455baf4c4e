-- The numbers of probes.
pub mod Laws
