pub mod Falls
pub mod Held
pub mod Lists
pub mod Shapes
pub mod Wholes
pub mod Printed
