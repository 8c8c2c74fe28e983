pub mod Regions
pub mod Grouped
pub mod CopiedNodes
pub mod Ranks
pub mod CopyByCopy
pub mod Reacted
