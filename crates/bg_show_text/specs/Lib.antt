pub mod SystemText
