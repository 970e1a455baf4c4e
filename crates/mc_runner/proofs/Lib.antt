pub mod Numbers
pub mod Counted
pub mod Images
pub mod Standing
pub mod Jobs
pub mod Gathered
pub mod Sent
pub mod Watched
