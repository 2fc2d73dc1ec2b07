pub mod Columns
mod Counts
mod Shares
mod Sound
pub mod Told
