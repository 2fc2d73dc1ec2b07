-- What contracts of public calls cite, and what these definitions use.
pub mod Firsts
pub mod PieceCycles
pub mod PieceTold
pub mod PieceWires
pub mod Pieces
pub mod Routings
-- What inner contracts and proofs alone cite.
pub mod Cuts
