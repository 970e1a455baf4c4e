pub mod Worked
pub mod Maps
