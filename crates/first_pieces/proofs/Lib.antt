mod Listing
mod OneFirst
pub mod Placed
pub mod Ranked
pub mod Tracks
mod Whole
