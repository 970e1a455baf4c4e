pub mod Declarations
pub mod Halves
pub mod Bodies
pub mod Laws
