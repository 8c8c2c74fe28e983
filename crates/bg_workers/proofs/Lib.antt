mod Reference
mod Turning
pub mod TurnLaws
mod FollowLaws
