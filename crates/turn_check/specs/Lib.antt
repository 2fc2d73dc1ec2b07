-- What contracts of public calls cite, and what these definitions depend on.
pub mod Turning
pub mod Courses
