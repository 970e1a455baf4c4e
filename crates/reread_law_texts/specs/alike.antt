-- Texts that differ in blanks and comments alone, and their trees.
pub mod Moves
pub mod Trees
pub mod Laws
pub mod Samples
