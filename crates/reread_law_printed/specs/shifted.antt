-- The rows of a program at other places.
pub mod Laws
