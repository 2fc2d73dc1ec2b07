-- What contracts of public calls cite, and what these definitions stand on.
pub mod Chains
pub mod Comparisons
pub mod Cutting
pub mod Layers
pub mod Moving
pub mod Near
pub mod Ranges
pub mod Rectangle
pub mod Regions
pub mod Runs
pub mod Slabbing
pub mod Touching
-- What inner contracts and proofs alone cite.
pub mod Banding
pub mod Standing
pub mod Sweeping
