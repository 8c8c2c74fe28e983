pub mod Ended
pub mod Numbers
pub mod Right
pub mod Staying
pub mod Words
