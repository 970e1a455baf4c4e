-- The implied conversions of a typed text.
pub mod Laws
