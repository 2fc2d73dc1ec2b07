-- What contracts of public calls cite, and what these definitions use.
pub mod Fits
pub mod Line
pub mod Order
pub mod Text
