pub mod Splitting
pub mod Marking
pub mod Joining
pub mod Stripping
pub mod Numbering
pub mod Putting
pub mod Worst
