pub mod Chains
pub mod Classing
pub mod Forests
pub mod Links
pub mod Tying
