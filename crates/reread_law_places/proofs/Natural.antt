-- Typed programs of texts that differ in blanks and comments alone. Lemmas.
pub mod Basics
pub mod Numbers
pub mod Values
pub mod Expressions
pub mod Words
pub mod Calls
pub mod Declarators
pub mod Judgement
pub mod Initializers
pub mod Declarations
pub mod Related
pub mod Statements
pub mod Bodies
pub mod Units
