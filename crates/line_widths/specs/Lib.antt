-- What contracts of public calls cite.
pub mod Spaces
pub mod Borders
pub mod StateBorders
pub mod TooWide
