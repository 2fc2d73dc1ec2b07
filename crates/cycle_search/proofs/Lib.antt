pub mod Free
pub mod Needs
pub mod Ordered
pub mod Table
pub mod Visited
