pub mod RowLaws
pub mod GroupLaws
pub mod ClimbLaws
pub mod AncestryLaws
pub mod SubtreeLaws
pub mod AbsentLaws
