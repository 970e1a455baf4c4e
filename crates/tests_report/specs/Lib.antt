pub mod Words
pub mod Rows
pub mod Flap
pub mod Bodies
pub mod Exits
pub mod Places
pub mod Forms
pub mod Whole
