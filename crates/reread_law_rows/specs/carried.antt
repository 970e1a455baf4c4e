-- Rows and the text in which they stand.
pub mod Laws
