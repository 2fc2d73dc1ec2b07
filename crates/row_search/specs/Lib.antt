-- What contracts of public calls cite, and what these definitions use.
pub mod Ended
pub mod Enough
pub mod First
pub mod Reached
-- What inner contracts and proofs alone cite.
pub mod Limits
pub mod SoFar
pub mod Steps
pub mod Visit
