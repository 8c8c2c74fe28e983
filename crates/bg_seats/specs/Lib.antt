pub mod Histories
pub mod Seating
