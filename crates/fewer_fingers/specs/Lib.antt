-- Read this first: what contracts of public calls cite.
pub mod Fewer
