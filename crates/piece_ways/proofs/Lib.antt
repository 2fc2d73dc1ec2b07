pub mod Failing
pub mod Listing
