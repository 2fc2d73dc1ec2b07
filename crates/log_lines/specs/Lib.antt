-- What contracts of public calls cite, and what these definitions stand on.
pub mod Fronts
pub mod Lines
pub mod Words
