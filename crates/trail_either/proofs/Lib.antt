pub mod Texts
pub mod Passes
pub mod Ended
pub mod Best
pub mod Most
pub mod Without
pub mod Vain
pub mod Rules
