-- Brackets that are taken out of a tree again.
pub mod Laws
