pub mod States
pub mod Machine
pub mod Calls
pub mod Whole
pub mod Faults
