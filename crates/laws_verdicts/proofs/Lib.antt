pub mod Reading
pub mod Apart
pub mod Counting
pub mod Settled
