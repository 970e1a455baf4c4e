-- Texts with brackets put round expressions and statements, and their trees.
pub mod Brackets
pub mod Trees
pub mod Weaving
pub mod Laws
