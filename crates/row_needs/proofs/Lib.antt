pub mod After
pub mod Bounds
pub mod Full
pub mod Led
pub mod OneValue
pub mod Rests
pub mod SameKinds
pub mod Tables
