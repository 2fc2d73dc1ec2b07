-- What contracts of public calls cite, and what these definitions depend on.
pub mod Commands
pub mod Ends
pub mod Evidence
pub mod Kept
