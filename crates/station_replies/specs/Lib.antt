-- What the top call answers: statuses, files, texts and replies.
pub mod Status
pub mod Files
pub mod Texts
pub mod Reply
-- Phases that judge a file, and what they have in common.
pub mod Phases
-- What clauses see of the program's types.
pub mod Seen
