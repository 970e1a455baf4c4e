pub mod Accepts
pub mod Given
pub mod Heads
pub mod Parts
pub mod Counted
