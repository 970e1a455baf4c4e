-- Brackets that are put into a text by their places. Lemmas.
pub mod Pour
pub mod PouredExpressions
pub mod PouredStatements
