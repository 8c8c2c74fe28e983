pub mod Counting
pub mod Parts
pub mod Copying
pub mod Growth
