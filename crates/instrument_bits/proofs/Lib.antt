pub mod Each
pub mod Last
pub mod Numbering
pub mod Maps
pub mod Operands
