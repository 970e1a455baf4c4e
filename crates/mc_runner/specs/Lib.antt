pub mod Recorded
pub mod Jobs
pub mod Laws
