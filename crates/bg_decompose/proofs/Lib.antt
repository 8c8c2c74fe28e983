mod Covered
mod Pieces
mod Whole
pub mod Splits
