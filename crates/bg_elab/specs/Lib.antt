pub mod Choices
pub mod References
pub mod Blocks
pub mod Systems
pub mod Calls
pub mod Elaboration
pub mod Reading
pub mod Spellings
