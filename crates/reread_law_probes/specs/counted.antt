-- The bits of an instrumented program.
pub mod Laws
