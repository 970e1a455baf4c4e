mod IntTypes
mod ExactValues
mod ExactInitializers
mod ExactUnits
mod SourceValues
mod SourceBodies
mod Decided
mod Nesting
mod Standing
mod InTheText
pub mod Spared
pub mod Silent
