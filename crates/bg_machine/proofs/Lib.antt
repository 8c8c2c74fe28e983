mod Bindings
mod Follow
mod Runs
pub mod Conditions
pub mod Counting
pub mod Calls
pub mod Endings
pub mod Wholes
pub mod Small
