-- What contracts of public calls cite, and what these definitions depend on.
pub mod Bench
pub mod Report
pub mod Tally
pub mod Paired
pub mod Read
pub mod Cells
pub mod Draws
pub mod Text
-- What inner contracts and proofs alone cite.
pub mod Size
