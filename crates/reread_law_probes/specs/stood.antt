-- The places of a text's program with probes.
pub mod Stands
pub mod Laws
pub mod Worked
