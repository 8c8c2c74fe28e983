mod Totals
mod Lines
mod OneText
pub mod Settled
mod Size
