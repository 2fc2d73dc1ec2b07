pub mod Around
pub mod Certified
pub mod Counting
pub mod Failing
pub mod Listed
pub mod NotAccepted
pub mod Noted
