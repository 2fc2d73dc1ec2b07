pub mod Documents
pub mod Empty
pub mod Least
pub mod Limits
pub mod NameLists
pub mod Told
