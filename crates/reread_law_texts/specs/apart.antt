-- The places in a text.
pub mod Places
pub mod Distinct
pub mod Enclosed
pub mod Laws
pub mod Worked
