-- The probes of an instrumented text.
pub mod Locals
pub mod Laws
