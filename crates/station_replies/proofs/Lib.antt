pub mod Phases
pub mod Statuses
