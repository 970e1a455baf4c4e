-- Brackets that are put into a text by their places.
pub mod Signs
pub mod Laws
pub mod Samples
