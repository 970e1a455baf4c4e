pub mod put
pub mod counted
pub mod converted
pub mod stood
pub mod short
