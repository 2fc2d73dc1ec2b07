pub mod Fitting
pub mod Giving
pub mod Rules
