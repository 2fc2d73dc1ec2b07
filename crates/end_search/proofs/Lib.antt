pub mod Choices
mod Grown
mod Kept
mod Limits
mod Spending
