-- What contracts of public calls cite, and what these definitions use.
pub mod Tables
pub mod Tracks
pub mod Ways
pub mod Crowds
pub mod Lines
pub mod Channel
pub mod Rows
pub mod States
pub mod Paths
pub mod Fails
pub mod Certificate
pub mod Checked
pub mod Rules
pub mod Fillings
pub mod Beside
pub mod StraightLaw
