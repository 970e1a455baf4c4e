pub mod Meeting
pub mod Pairing
pub mod Growing
pub mod Closing
pub mod Placing
