-- Read these first: what contracts of public calls cite.
pub mod Steps
pub mod Justified
pub mod Indexed
