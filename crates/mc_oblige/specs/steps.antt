-- What the proofs need between the definitions and the code. No public clause rests on it.
pub mod Places
pub mod Table
pub mod Tested
pub mod Found
pub mod Named
