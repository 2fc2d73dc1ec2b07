-- What contracts of public calls cite.
pub mod Fits
pub mod Line
pub mod Listing
pub mod Reading
pub mod Text
