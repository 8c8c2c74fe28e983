pub mod Answer
pub mod Described
pub mod Failure
pub mod Promise
pub mod Refusal
