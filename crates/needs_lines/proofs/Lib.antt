pub mod Rising
pub mod Cutting
pub mod Heads
pub mod Joined
pub mod Deciding
