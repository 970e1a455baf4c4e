pub mod inserted
pub mod fitting
pub mod signed
pub mod taken
pub mod carried
