pub mod Needs
pub mod Asked
pub mod Wanted
pub mod Answer
pub mod Laws
pub mod steps
