-- What the proofs need between the definitions and the code. No public clause rests on it.
pub mod Descent
pub mod Bounds
pub mod Same
pub mod Masked
pub mod Kept
