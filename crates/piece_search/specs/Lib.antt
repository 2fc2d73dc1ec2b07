-- What contracts of public calls cite, and what these definitions use.
pub mod Lowest
