pub mod Low
pub mod Ordered
pub mod Refusals
pub mod Same
pub mod Told
