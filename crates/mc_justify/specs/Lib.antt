pub mod Faults
pub mod Entries
pub mod Justifications
pub mod Returned
pub mod Seen
