-- What contracts of public calls cite, and what these definitions use.
pub mod Macros
pub mod Reading
pub mod Tokens
pub mod Keywords
pub mod Numbers
pub mod Stages
pub mod Agreement
pub mod Differences
-- What inner contracts and proofs alone cite.
pub mod Drafts
pub mod Statements
pub mod Lookups
