pub mod Makes
pub mod Names
pub mod Numbers
pub mod Rows
pub mod Rules
