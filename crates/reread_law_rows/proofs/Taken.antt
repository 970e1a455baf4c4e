-- The probes of an instrumented text. Lemmas.
pub mod Puts
pub mod Claims
pub mod Counts
pub mod Where
pub mod Right
pub mod Sorted
pub mod Steps
pub mod Kernel
pub mod Still
pub mod Blocks
pub mod WalkedExpressions
pub mod WalkedStatements
pub mod Expressions
pub mod Statements
pub mod Taken
pub mod LocalsApart
