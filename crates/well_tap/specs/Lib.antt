pub mod Base
pub mod Bodied
pub mod Kept
pub mod Measures
pub mod Tapped
