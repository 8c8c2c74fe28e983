pub mod Conditions
pub mod Clauses
pub mod Parts
