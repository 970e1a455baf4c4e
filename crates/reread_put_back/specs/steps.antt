-- What the proofs need between the definitions and the code. No public clause rests on it.
pub mod Views
pub mod Greatest
pub mod Events
pub mod First
pub mod Inside
pub mod Strays
