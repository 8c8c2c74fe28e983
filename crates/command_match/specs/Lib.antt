pub mod Faults
pub mod Match
