pub mod RunLaws
pub mod Longest
pub mod PieceLaws
pub mod Cutting
pub mod Unique
pub mod TokenLaws
