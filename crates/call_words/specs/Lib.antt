-- What contracts of public calls cite, and what these definitions depend on.
pub mod Asked
pub mod Options
pub mod Words
