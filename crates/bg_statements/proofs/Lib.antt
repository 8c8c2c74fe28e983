pub mod Turns
pub mod Codes
pub mod Sounds
pub mod RulesSound
pub mod UseCodes
pub mod TestsPassed
pub mod UsesFit
pub mod WholeValues
pub mod UsesAre
mod UsesKnown
