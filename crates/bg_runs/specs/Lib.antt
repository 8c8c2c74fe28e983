pub mod Finished
pub mod Teams
