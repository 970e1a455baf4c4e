-- The places in a text. Lemmas.
pub mod Ascending
pub mod ApartExpressions
pub mod ApartStatements
pub mod StatementsApart
pub mod Enclosing
