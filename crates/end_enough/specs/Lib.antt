-- What contracts of public calls cite.
pub mod Enough
