pub mod Ends
pub mod Hits
pub mod Registers
