pub mod Writing
mod Occurrences
mod OneRule
pub mod OneText
pub mod SomeText
