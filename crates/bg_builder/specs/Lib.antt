pub mod Behind
pub mod Frames
pub mod Inside
pub mod Numbers
pub mod Stack
