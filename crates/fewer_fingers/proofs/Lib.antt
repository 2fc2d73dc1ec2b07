pub mod Counts
pub mod Dropped
pub mod Filled
pub mod Kept
pub mod Law
pub mod Thinned
