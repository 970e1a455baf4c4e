pub mod IntTypes
pub mod ObjectTypes
pub mod Conversions
pub mod Digits
pub mod Arithmetic
pub mod Shifts
pub mod Laws
