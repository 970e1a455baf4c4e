pub mod Among
pub mod Separate
pub mod Headed
pub mod Laws
