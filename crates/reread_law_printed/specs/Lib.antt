pub mod spelled
pub mod parts
pub mod placed
pub mod shifted
pub mod ordered
