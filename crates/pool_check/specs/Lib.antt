-- Read these first: what contracts of public calls cite.
pub mod Stepping
pub mod Accepted
pub mod Refusal
pub mod Along
-- What inner contracts cite.
pub mod Same
