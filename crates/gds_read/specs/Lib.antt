-- What contracts of public calls cite, and what these definitions use.
pub mod Decoding
pub mod Drawn
pub mod Elements
pub mod Flat
pub mod Grammar
pub mod Index
pub mod Library
pub mod Real
pub mod References
pub mod RoundTrip
pub mod Structure
pub mod Words
