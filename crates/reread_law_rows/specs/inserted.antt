-- The rows of the table in the order of a text, each at what it stands at.
pub mod Rows
pub mod Signs
pub mod Seats
pub mod Fits
pub mod Worked
