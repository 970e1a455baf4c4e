pub mod Lists
pub mod Expressions
pub mod Specifiers
pub mod Rooms
pub mod Declarations
pub mod Statements
pub mod Items
pub mod Laws
