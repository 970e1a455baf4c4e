-- Where the rows of the table may stand in a text. Lemmas.
pub mod Words
pub mod Sections
pub mod Balance
pub mod Spots
pub mod FitExpressions
pub mod Profile
pub mod Begins
pub mod Silent
pub mod Endings
pub mod FitStatements
