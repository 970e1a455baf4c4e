pub mod Pens
pub mod Insertions
pub mod Texts
pub mod Worked
pub mod steps
