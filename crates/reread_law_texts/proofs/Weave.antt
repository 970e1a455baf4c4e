-- Texts with brackets put round expressions and statements, and their trees. Lemmas.
pub mod Next
pub mod First
pub mod Labels
pub mod Starts
pub mod Climb
pub mod Enclosed
pub mod Stand
pub mod Steady
pub mod Built
pub mod Nodes
pub mod WovenExpressions
pub mod WovenStatements
pub mod Heights
