pub mod TeamLaws
pub mod Ends
