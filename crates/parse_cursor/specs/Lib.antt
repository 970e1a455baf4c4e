pub mod Short
pub mod Cursors
pub mod Made
pub mod Rules
