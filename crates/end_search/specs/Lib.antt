-- What contracts of public calls cite.
pub mod Proof
pub mod Reached
pub mod New
pub mod Units
-- What inner contracts cite.
pub mod Search
