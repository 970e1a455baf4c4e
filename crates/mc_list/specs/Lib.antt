pub mod Lines
pub mod Marks
pub mod Listing
pub mod Laws
pub mod Seen
pub mod steps
