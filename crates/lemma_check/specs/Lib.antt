-- What contracts of public calls cite, and what these definitions use.
pub mod Known
pub mod Noted
pub mod Reaches
