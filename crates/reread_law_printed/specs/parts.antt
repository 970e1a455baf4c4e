-- The text of a program with probes, as parts.
pub mod Parts
pub mod Stands
pub mod Marks
pub mod Moved
pub mod Closed
pub mod Shaped
pub mod Placed
pub mod Laws
pub mod Worked
