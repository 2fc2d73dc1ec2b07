-- Read these first: what contracts of public calls cite.
pub mod Levels
pub mod Nodes
pub mod Pairings
pub mod Settling
-- What these use. In `Same` are proofs too, which the trait `Hash` requires here.
pub mod Choices
pub mod Edges
pub mod Fronts
pub mod Known
pub mod Places
pub mod Same
pub mod Sorted
