-- The brackets that the table inserts. Lemmas.
pub mod Split
pub mod Signed
pub mod Silent
pub mod Wrapped
pub mod Values
pub mod Bodies
pub mod Units
