-- What the proofs need between the definitions and the code. No public clause rests on it.
pub mod Marks
pub mod Among
pub mod Pairing
pub mod Each
pub mod Due
pub mod Ids
pub mod Listing
pub mod State
