pub mod Changes
pub mod Locality
pub mod Touches
pub mod Twins
pub mod Updates
