pub mod Tokens
mod Alike
pub mod Weave
mod Bracketed
mod Unwoven
pub mod Apart
