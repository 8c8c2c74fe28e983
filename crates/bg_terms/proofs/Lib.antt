mod Examples
mod Numbers
pub mod Numbered
mod References
mod Edges
pub mod Closures
pub mod Valid
mod Labels
pub mod Ordered
pub mod Fitting
mod Placed
pub mod ShapesFit
pub mod Made
mod Claims
pub mod Ports
pub mod InTurn
pub mod Controls
mod Later
pub mod OuterNames
pub mod Limits
