-- What contracts of public calls cite, and what these definitions stand on.
pub mod Accepted
pub mod Closing
pub mod Gates
pub mod Graph
pub mod Indexed
pub mod Justified
pub mod Leveled
pub mod Listed
pub mod Refusal
pub mod Rows
-- What inner contracts and proofs alone cite.
pub mod Tests
