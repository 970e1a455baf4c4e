pub mod Comments
pub mod Blanks
pub mod Excerpts
pub mod steps
