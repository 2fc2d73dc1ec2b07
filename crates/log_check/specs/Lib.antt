-- What contracts of public calls cite, and what these definitions use.
pub mod Accepted
pub mod Items
pub mod Refusal
-- What inner contracts and proofs alone cite.
pub mod Tests
