-- What contracts cite, and what these definitions stand on.
pub mod Counts
pub mod Trails
