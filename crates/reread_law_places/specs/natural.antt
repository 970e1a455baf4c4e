-- Typed programs of texts that differ in blanks and comments alone.
pub mod Moved
pub mod Settled
pub mod Found
pub mod Laws
pub mod Samples
