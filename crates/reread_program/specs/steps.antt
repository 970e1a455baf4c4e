-- Steps of the code, for its proofs alone.
pub mod Short
