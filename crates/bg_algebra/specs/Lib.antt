pub mod Faults
pub mod Halves
pub mod Frame
pub mod Laws
pub mod Closure
