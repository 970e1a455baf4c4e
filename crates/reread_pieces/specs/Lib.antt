pub mod Words
pub mod Shapes
pub mod Rows
pub mod Pieces
pub mod Plain
pub mod steps
pub mod Worked
