-- What contracts of public calls cite.
pub mod Above
pub mod Bound
pub mod Many
pub mod Need
pub mod Rest
pub mod Table
-- What inner contracts and proofs alone cite.
pub mod Best
