mod Items
mod Joins
pub mod Layers
