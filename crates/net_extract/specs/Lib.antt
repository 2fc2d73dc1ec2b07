-- What contracts of public calls cite, and what these definitions use.
pub mod Bodies
pub mod Bonds
pub mod Devices
pub mod Extraction
pub mod Labels
pub mod Naming
pub mod NetMaps
pub mod Nets
pub mod Numbering
pub mod Pieces
-- What inner contracts and proofs alone cite.
pub mod Areas
pub mod Connections
pub mod Corners
pub mod Cuts
pub mod GateNets
pub mod Links
pub mod Lookups
pub mod Meetings
pub mod Sides
pub mod Steps
pub mod Ties
