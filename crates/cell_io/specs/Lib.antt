-- What contracts of public calls cite, and what these definitions use.
pub mod Desk
pub mod Host
pub mod Mem
pub mod Output
pub mod Sink
pub mod Whole
-- What inner contracts and proofs alone cite.
pub mod Reading
