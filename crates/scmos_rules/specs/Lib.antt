-- What contracts of public calls cite, and what these definitions stand on.
pub mod Failing
pub mod Gates
pub mod Layout
pub mod Lengths
pub mod Numbers
pub mod Rules
pub mod Violations
-- What inner contracts and proofs alone cite.
pub mod Apart
pub mod Cells
pub mod Conditions
pub mod Laws
pub mod Near
pub mod Outward
pub mod Regions
