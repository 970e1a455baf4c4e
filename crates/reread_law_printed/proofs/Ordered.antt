-- The order of rows. Lemmas.
pub mod Going
pub mod Values
pub mod Bodies
pub mod Reading
