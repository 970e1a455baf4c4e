-- What the proofs need between the definitions and the code. No public clause rests on it.
pub mod Modes
