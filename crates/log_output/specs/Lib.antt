-- What contracts of public calls cite, and what these definitions use.
pub mod Giving
pub mod Ready
pub mod Targets
