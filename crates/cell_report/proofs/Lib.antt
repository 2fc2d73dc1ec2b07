pub mod Unfinished
