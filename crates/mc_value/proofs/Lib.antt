pub mod Bounds
pub mod Wrapping
pub mod Bits
pub mod Results
