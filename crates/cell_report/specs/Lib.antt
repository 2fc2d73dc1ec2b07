-- What contracts of public calls cite, and what these definitions depend on.
pub mod Cells
pub mod Cycles
pub mod Logs
pub mod Names
pub mod Netlists
pub mod Rows
pub mod Violations
pub mod AbstractFaults
pub mod Faults
pub mod LayoutFaults
pub mod RowFaults
pub mod TrackFaults
pub mod TrailFaults
pub mod Unfinished
-- What inner contracts and proofs alone cite.
pub mod Fields
