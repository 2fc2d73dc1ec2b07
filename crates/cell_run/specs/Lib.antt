-- What contracts of public calls cite, and what these definitions depend on.
pub mod Agree
pub mod Bench
pub mod Calm
pub mod Check
pub mod Created
pub mod Ended
pub mod Evidence
pub mod Extract
pub mod From
pub mod Headline
pub mod Low
pub mod Origin
pub mod Plan
pub mod Row
