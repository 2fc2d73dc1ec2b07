-- What contracts of public calls cite, and what these definitions stand on.
pub mod Arrangement
pub mod Gaps
-- What inner contracts and proofs alone cite.
pub mod Tests
