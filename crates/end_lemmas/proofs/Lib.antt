pub mod First
pub mod Found
pub mod Passed
pub mod Proved
pub mod Sound
