-- What contracts of public calls cite, and what these definitions depend on.
pub mod InputFiles
pub mod Inputs
pub mod Read
pub mod Reading
pub mod Refusals
pub mod Sources
