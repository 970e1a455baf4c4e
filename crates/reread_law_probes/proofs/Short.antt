-- The numbers of probes. Lemmas.
pub mod Numbers
pub mod Shorts
pub mod Programs
