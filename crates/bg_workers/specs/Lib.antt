pub mod Turns
pub mod Working
pub mod Members
pub mod Following
