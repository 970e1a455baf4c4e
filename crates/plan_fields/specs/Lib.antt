-- What the text of a field says.
pub mod Numbers
pub mod Fields
-- What a test can call, and with what.
pub mod Calls
-- What clauses see, and what private functions compute.
pub mod Seen
pub mod steps
