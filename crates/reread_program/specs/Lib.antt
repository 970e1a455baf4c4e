pub mod Reading
pub mod Returned
pub mod steps
pub mod Laws
