-- Probes and places. Lemmas.
pub mod Nodes
pub mod Points
pub mod Put
pub mod Placeless
pub mod Maps
