-- What contracts of public calls cite, and what these definitions use.
pub mod Allowed
pub mod Entries
pub mod Measures
pub mod Solution
