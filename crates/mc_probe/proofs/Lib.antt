pub mod Kept
pub mod Erased
pub mod ErasedPrograms
pub mod Backs
pub mod Bared
pub mod Counted
