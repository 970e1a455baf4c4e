pub mod Views
pub mod Rule
pub mod Words
pub mod Steps
pub mod Laws
pub mod Tells
pub mod Model
pub mod Closed
