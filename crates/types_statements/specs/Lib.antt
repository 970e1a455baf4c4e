pub mod Items
pub mod Initializers
pub mod Lists
