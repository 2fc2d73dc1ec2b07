-- What contracts of public calls cite, and what these definitions stand on.
pub mod Fingers
pub mod Length
pub mod Lines
pub mod Lists
pub mod Names
pub mod Pins
pub mod Room
pub mod Steps
pub mod Tests
