-- What one record says, and what several make.
pub mod Lines
pub mod Tests
-- What a whole file stands for.
pub mod File
-- Samples for worked examples.
pub mod Samples
-- What clauses see, and what private functions compute.
pub mod Seen
pub mod steps
