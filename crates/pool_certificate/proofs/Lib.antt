pub mod Filled
pub mod Least
pub mod OtherLines
pub mod Refusals
pub mod Rules
pub mod Unproved
