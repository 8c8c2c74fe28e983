pub mod Finders
pub mod Lists
pub mod Matches
pub mod Picking
pub mod Ports
pub mod Replicas
