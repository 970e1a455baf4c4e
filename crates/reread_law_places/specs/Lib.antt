pub mod natural
pub mod still
