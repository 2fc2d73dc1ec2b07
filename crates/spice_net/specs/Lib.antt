-- What contracts of public calls cite, and what these definitions stand on.
pub mod Chosen
pub mod Directions
pub mod Nets
pub mod Numbers
pub mod Pairs
pub mod Parameters
pub mod Subcircuit
pub mod Subckts
pub mod Transistors
-- What inner contracts and proofs alone cite.
pub mod Reader
