mod Tokens
mod Leaving
mod Spelled
mod AmongFunctions
pub mod Ready
pub mod Around
pub mod Values
pub mod Laid
pub mod Labels
pub mod Reading
pub mod SeparateBodies
pub mod SeparateFunctions
pub mod Signs
pub mod Stretch
pub mod Said
pub mod Profile
pub mod Trees
pub mod HeadedBodies
pub mod Items
pub mod Unique
pub mod HeadedFunctions
pub mod Words
pub mod Own
pub mod Pieces
pub mod Parted
pub mod Printed
pub mod Again
