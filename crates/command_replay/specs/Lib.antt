pub mod ReplayText
pub mod Replay
pub mod Judging
