-- Probes of a text that are put back into its program.
pub mod Places
pub mod Ends
pub mod Takes
pub mod Conversions
pub mod Laws
pub mod Worked
