pub mod Bindings
pub mod Runs
mod Words
pub mod Items
pub mod Partly
pub mod Gathering
pub mod Ranges
pub mod Outcomes
mod KeptLaws
