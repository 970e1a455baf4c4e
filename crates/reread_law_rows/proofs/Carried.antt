-- Rows and the text in which they stand. Lemmas.
pub mod Sitting
pub mod Values
pub mod Bodies
pub mod Units
