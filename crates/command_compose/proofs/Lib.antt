mod Joined
mod Law
mod Reading
mod Verdicts
pub mod Settled
