pub mod First
pub mod Rows
