-- What contracts of public calls cite, and what these definitions use.
pub mod PieceFails
pub mod PieceWays
pub mod AllWays
pub mod OnlyWays
pub mod TurningLaw
