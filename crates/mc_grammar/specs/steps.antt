-- Steps of the parser, for its proofs alone: no definition of the grammar names them.
pub mod Parsers
pub mod Next
