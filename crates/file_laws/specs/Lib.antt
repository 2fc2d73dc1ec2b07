-- What contracts of public calls cite, and what these definitions use.
pub mod Size
pub mod Abstracts
pub mod Drawn
