pub mod Items
pub mod Justified
pub mod Places
pub mod SameKinds
pub mod Sound
