mod Answering
pub mod Settled
mod Texts
