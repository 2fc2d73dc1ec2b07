-- What contracts of public calls cite, and what these definitions use.
pub mod Areas
pub mod EvenOdd
pub mod Faults
pub mod Moves
pub mod Paths
pub mod Points
pub mod Progress
pub mod Units
-- What inner contracts and proofs alone cite.
pub mod Sweep
