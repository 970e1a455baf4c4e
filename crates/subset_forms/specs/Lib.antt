pub mod Contexts
pub mod Names
pub mod Order
