pub mod Places
pub mod Spelling
pub mod Tokens
pub mod Pieces
pub mod Answers
