-- Steps of the code, for its proofs alone: the definitions that public clauses reach stand in
-- mc_grammar. A statement is read by its front, the statements that are its parts, and its end.
pub mod Beginnings
pub mod Made
pub mod Fronts
pub mod Headed
pub mod Wholes
