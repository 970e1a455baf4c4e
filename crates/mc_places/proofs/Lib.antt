pub mod Halving
pub mod Splitting
pub mod Reading
pub mod Turning
pub mod Writing
pub mod Following
pub mod Lexing
