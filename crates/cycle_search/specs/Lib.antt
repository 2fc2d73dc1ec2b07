-- What contracts of public calls cite.
pub mod Search
-- What inner contracts and proofs alone cite.
pub mod Below
pub mod Visit
pub mod Ways
