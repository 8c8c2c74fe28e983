mod Answering
mod Excess
pub mod OneAnswer
mod Rules
mod SomeAnswer
