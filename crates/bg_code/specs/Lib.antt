pub mod Code
pub mod Lowering
