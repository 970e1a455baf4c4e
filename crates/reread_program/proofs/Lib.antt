pub mod Firsts
pub mod Sequence
pub mod Judging
pub mod Once
pub mod Short
pub mod Clauses
