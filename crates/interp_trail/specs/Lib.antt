pub mod Trails
pub mod Stops
pub mod Layouts
pub mod Kept
pub mod Led
pub mod Traced
pub mod Seen
pub mod Worked
