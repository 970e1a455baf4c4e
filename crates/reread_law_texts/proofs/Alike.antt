-- Texts that differ in blanks and comments alone, and their trees. Lemmas.
pub mod Left
pub mod Fitting
pub mod Tests
pub mod Spans
pub mod MovedExpressions
pub mod MovedStatements
pub mod Heights
pub mod Nodes
pub mod Alike
pub mod Order
pub mod Blanks
