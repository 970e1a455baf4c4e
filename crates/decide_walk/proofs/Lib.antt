pub mod Grows
pub mod Shapes
mod Leaves
mod Builds
