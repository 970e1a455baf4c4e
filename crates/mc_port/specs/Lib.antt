pub mod Causes
pub mod HostStore
pub mod Lines
pub mod MemorySink
pub mod MemoryStore
pub mod Sink
pub mod Store
pub mod Words
