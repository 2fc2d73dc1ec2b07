pub mod Delivered
pub mod Rules
