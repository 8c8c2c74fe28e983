mod Answering
mod Counted
mod NodeCounts
mod OneText
pub mod Settled
mod Telling
mod Texts
mod Truths
