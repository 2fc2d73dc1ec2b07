pub mod Apart
pub mod Bounds
mod Gates
mod Nodes
pub mod Order
pub mod Pins
pub mod Placed
pub mod Seated
pub mod Units
