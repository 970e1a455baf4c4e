-- The order of rows.
pub mod Nested
pub mod Laws
