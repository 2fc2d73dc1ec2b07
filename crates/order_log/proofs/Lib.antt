pub mod Columns
pub mod Fronts
pub mod Heads
pub mod Lists
pub mod Only
pub mod Spells
pub mod Whole
pub mod Rules
