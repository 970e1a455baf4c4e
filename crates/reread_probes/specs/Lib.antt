pub mod Probes
pub mod Walks
pub mod Expressions
pub mod Statements
pub mod Returned
pub mod Worked
pub mod steps
