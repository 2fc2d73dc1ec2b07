-- What contracts of public calls cite, and what these definitions depend on.
pub mod Extract
pub mod Agree
pub mod Row
