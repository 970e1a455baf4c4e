pub mod Laid
pub mod Followed
pub mod Bits
pub mod Counting
pub mod Formed
pub mod ByHand
pub mod FullByHand
pub mod Places
