pub mod Counts
pub mod RunText
pub mod Run
pub mod Told
