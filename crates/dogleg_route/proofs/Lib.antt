mod Cutting
mod Cycles
mod Finds
pub mod FirstLabels
pub mod Holding
pub mod Marks
mod NodeLines
pub mod Numbers
mod OnePieceTold
mod OnePiecing
pub mod PieceChannel
mod PieceDensity
pub mod PieceLegal
pub mod PieceSteps
mod PieceTelling
pub mod PieceWalks
pub mod Sorting
mod StuckPieces
pub mod Wired
