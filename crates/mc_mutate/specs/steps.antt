-- What the proofs need between the definitions and the code. No public clause rests on it.
pub mod Search
pub mod Changed
pub mod Replaced
pub mod Bared
