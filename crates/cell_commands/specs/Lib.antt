-- What contracts of public calls cite, and what these definitions depend on.
pub mod Evidence
pub mod RowEnd
pub mod TrailCheck
pub mod Counts
pub mod Check
pub mod LogRead
pub mod Given
pub mod Make
pub mod Plan
pub mod Searched
pub mod Course
pub mod Low
pub mod Listed
pub mod Other
pub mod LowCheck
-- What inner contracts and proofs alone cite.
pub mod Judged
pub mod Certificate
pub mod LowEnds
pub mod Relisted
pub mod Sides
