pub mod alike
pub mod weave
pub mod brackets
pub mod unwoven
pub mod apart
