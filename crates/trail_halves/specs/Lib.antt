-- Read these first: what contracts of public calls cite.
pub mod Halves
pub mod Open
-- What these use. In `Same` are proofs too, which the trait `Hash` requires here.
pub mod Same
