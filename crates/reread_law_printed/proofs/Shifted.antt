-- The rows of a program at other places. Lemmas.
pub mod Counting
pub mod Values
pub mod Bodies
pub mod Settling
pub mod Whole
