-- The implied conversions of a typed text. Lemmas.
pub mod Flags
pub mod Values
pub mod Bodies
pub mod Units
