-- The bits of an instrumented program. Lemmas.
pub mod Sums
pub mod Ended
pub mod Ranges
pub mod Reach
pub mod Reached
pub mod Zeros
pub mod Effects
pub mod Statements
pub mod Functions
pub mod Programs
