pub mod Literals
pub mod Directives
pub mod Kinds
pub mod Cuts
pub mod Seen
pub mod Laws
pub mod steps
