pub mod Following
pub mod KeptClasses
pub mod KeptSteps
pub mod ListLaws
pub mod MatchLaws
pub mod PickLaws
pub mod PortLaws
pub mod Pushed
