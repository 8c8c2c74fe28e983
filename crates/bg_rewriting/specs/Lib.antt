pub mod Boundaries
pub mod Rewriting
pub mod Touching
pub mod Making
pub mod Keeping
