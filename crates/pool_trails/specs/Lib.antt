-- Read this first: what contracts of public calls cite.
pub mod Ended
pub mod Found
pub mod Opening
-- What inner contracts cite.
pub mod Inner
