pub mod Decide
mod Even
mod Least
pub mod Prefixes
mod Solutions
pub mod Within
