pub mod Model
pub mod Trial
pub mod TrialText
