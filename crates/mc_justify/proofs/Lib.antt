pub mod Values
pub mod ById
pub mod Adding
