pub mod Check
pub mod Models
