pub mod EntryLines
pub mod Journals
pub mod BadLines
pub mod Replayed
