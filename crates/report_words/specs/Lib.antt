pub mod Words
pub mod Hexadecimal
pub mod Named
pub mod Laws
