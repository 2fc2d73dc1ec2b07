-- What contracts of public calls cite.
pub mod Listed
pub mod Lines
pub mod After
pub mod Texts
