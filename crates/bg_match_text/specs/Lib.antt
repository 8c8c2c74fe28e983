pub mod Appending
pub mod MatchText
pub mod Counts
