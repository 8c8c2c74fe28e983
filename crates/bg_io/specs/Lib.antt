pub mod Faults
pub mod MemorySink
pub mod MemorySource
pub mod Standard
pub mod Transfers
