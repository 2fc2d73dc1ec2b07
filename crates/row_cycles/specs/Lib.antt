-- What contracts of public calls cite, and what these definitions use.
pub mod Above
pub mod Certificate
pub mod Down
pub mod Fits
pub mod Next
pub mod Noted
pub mod Refusal
pub mod Steps
pub mod Unwired
