-- Steps of the code, for its proofs alone: the definitions stand in the files beside this one.
pub mod Holds
pub mod Pieces
