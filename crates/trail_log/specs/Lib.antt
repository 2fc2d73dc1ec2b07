-- What contracts of public calls cite, and what these definitions use.
pub mod Fits
pub mod Line
pub mod Listed
pub mod Listing
pub mod Order
pub mod Reading
pub mod Spelling
pub mod Text
