pub mod Decide
mod Examples
