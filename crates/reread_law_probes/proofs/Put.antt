-- Probes of a text that are put back into its program. Lemmas.
pub mod Walked
pub mod Leads
pub mod Rest
pub mod Around
pub mod Expressions
pub mod Effects
pub mod Statements
pub mod Programs
pub mod Tables
pub mod Instrumented
