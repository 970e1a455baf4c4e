pub mod Loops
pub mod Operands
pub mod Faults
pub mod Single
pub mod Headings
