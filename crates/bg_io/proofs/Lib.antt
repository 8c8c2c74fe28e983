mod Given
mod Turns
