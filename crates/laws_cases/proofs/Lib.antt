pub mod Told
pub mod NoType
pub mod Large
pub mod Tables
pub mod SkippedTests
pub mod Rows
pub mod Units
