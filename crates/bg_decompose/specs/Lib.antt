pub mod Joining
pub mod Marks
pub mod Parts
pub mod Cuts
