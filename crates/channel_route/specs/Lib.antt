-- What contracts of public calls cite, and what these definitions stand on.
pub mod Cycle
pub mod Graph
pub mod Routing
pub mod Told
pub mod Turn
pub mod Walk
pub mod Wires
pub mod Wiring
