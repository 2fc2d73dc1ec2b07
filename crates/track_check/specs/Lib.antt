-- What contracts of public calls cite, and what these definitions depend on.
pub mod Noted
pub mod Refusal
pub mod Steps
pub mod Touches
pub mod Accepted
