-- What contracts of public calls cite, and what these definitions use.
pub mod Fits
pub mod Lists
pub mod Reading
pub mod Text
