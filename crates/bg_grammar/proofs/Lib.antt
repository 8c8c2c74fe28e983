pub mod Plans
pub mod Predictions
pub mod Stops
pub mod Faults
pub mod Solid
pub mod Trees
pub mod Examples
