pub mod Limits
pub mod Numbered
pub mod Places
pub mod CellTypes
pub mod Values
pub mod Shared
