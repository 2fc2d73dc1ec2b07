-- Read these first: what contracts of public calls cite.
pub mod Accepted
pub mod Refusal
