mod States
pub mod Texts
mod Keyed
mod Odd
mod Back
mod Settled
mod OddPlaces
mod Parity
mod Next
pub mod Along
