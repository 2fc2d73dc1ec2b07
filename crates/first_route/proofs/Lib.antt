pub mod Bare
pub mod Fitting
pub mod Legal
mod OneFirst
mod Openings
mod Steps
mod Tries
mod Whole
