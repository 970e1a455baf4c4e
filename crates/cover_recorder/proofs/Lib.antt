pub mod Stamps
pub mod Crew
