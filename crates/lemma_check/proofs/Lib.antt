pub mod Branches
pub mod Kept
pub mod Noting
pub mod States
