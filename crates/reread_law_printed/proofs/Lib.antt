pub mod Spelled
pub mod Parts
pub mod Placed
pub mod Shifted
mod Ordered
