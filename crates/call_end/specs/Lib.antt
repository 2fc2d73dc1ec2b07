-- What contracts of public calls cite, and what these definitions use.
pub mod Deliver
pub mod End
pub mod Files
pub mod Status
