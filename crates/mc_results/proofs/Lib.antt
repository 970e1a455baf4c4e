pub mod Right
pub mod Numbered
pub mod Stopped
pub mod Shared
pub mod Trails
pub mod Plain
