-- Read these first: what contracts of public calls cite.
pub mod State
pub mod Levels
pub mod Meeting
pub mod Choices
pub mod Leveled
pub mod Numbered
-- What inner contracts and proofs alone cite.
pub mod NodesMet
pub mod Stepping
