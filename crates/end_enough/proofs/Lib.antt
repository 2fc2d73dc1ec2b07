mod Apart
mod Bounded
mod Led
pub mod Few
