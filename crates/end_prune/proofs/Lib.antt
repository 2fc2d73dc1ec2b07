pub mod Sublists
mod Marked
mod Behind
mod Support
mod Walk
mod Ends
