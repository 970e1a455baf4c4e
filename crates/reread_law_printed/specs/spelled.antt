-- Printed texts, and the tokens that are read of their bytes.
pub mod Words
pub mod Numbers
pub mod Laws
pub mod Worked
