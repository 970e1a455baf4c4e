-- What words and files call for: the status, the texts, and the files that are asked for.
pub mod Output
pub mod Source
pub mod Named
pub mod Tests
pub mod Records
pub mod commands
pub mod Justified
pub mod Stages
pub mod Taken
pub mod Calls
pub mod Laws
pub mod Causes
pub mod Statuses
-- What the top call leaves.
pub mod Outcome
-- What clauses see of the program's types.
pub mod Replied
pub mod Seen
-- What the tests gave, for the proofs alone.
pub mod Ran
pub mod Looked
