pub mod ConstraintsOf
pub mod Counts
mod Crossing
mod Density
mod Down
pub mod FilledTracks
mod Filling
mod InOrder
mod Legal
pub mod LegalWiring
pub mod NetWires
pub mod OneCycle
pub mod OneRouting
pub mod OneTold
mod Room
pub mod Routes
pub mod SameRouting
pub mod Stuck
pub mod StuckKeys
mod Sweeps
mod TracksFilled
pub mod TrunkChannel
mod TrunkWires
mod Turning
pub mod Turns
pub mod Unique
mod WalkNets
