-- Printed texts, and the tokens that are read of their bytes. Lemmas.
pub mod Meanings
pub mod Spacing
pub mod Inserted
pub mod Written
pub mod Printed
pub mod Example
