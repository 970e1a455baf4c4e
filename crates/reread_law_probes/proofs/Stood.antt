-- The places of a text's program with probes. Lemmas.
pub mod Ascents
pub mod StoodExpressions
pub mod StoodStatements
pub mod Counted
pub mod Wrapped
pub mod Values
pub mod Bodies
pub mod Units
