pub mod Fronts
pub mod Heads
pub mod Items
pub mod Only
pub mod Whole
pub mod Words
pub mod Rules
