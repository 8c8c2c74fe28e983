pub mod Answered
pub mod Models
pub mod Statuses
