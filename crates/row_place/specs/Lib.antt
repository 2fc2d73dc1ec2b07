-- What contracts of public calls cite, and what these definitions stand on.
pub mod Places
pub mod Steps
pub mod Trunks
pub mod Units
