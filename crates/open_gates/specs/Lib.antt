-- Read these first: what contracts of public calls cite.
pub mod Open
pub mod Leveled
-- What these use. In `Equal` is a proof too, which the trait `Hash` requires here.
pub mod Merged
pub mod Equal
-- What inner contracts and proofs alone cite.
pub mod Listed
