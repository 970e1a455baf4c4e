pub mod Runs
pub mod Memories
pub mod Events
pub mod Expressions
pub mod Statements
pub mod Calls
pub mod Tests
pub mod Points
