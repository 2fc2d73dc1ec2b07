-- What contracts of public calls cite.
pub mod Splits
-- What inner contracts and proofs alone cite.
pub mod Onward
-- The proofs of laws.
pub mod Filled
pub mod StraightSplits
pub mod TurningSplits
