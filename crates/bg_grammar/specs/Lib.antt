pub mod Grammar
pub mod Faults
pub mod Plan
pub mod Machine
pub mod Trees
