-- What contracts of public calls cite.
pub mod Asked
pub mod Measured
