pub mod Recorder
pub mod Led
pub mod Crew
