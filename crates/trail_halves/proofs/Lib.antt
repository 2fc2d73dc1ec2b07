pub mod Turning
pub mod Pools
pub mod Filled
pub mod Without
pub mod Parted
pub mod Opened
