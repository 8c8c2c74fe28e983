pub mod OddWords
mod Ranges
