-- What contracts of public calls cite, and what these definitions depend on.
pub mod CellOfRow
pub mod Extent
pub mod Low
pub mod LowCycles
pub mod LowRows
pub mod LowTracks
pub mod LowUnwired
pub mod Making
pub mod Rows
pub mod Searched
pub mod Structures
pub mod Style
pub mod RowInputs
pub mod Rowed
pub mod RowSteps
-- What inner contracts and proofs alone cite.
pub mod Channel
pub mod LowEnded
pub mod LowWired
pub mod WithLog
pub mod Writable
