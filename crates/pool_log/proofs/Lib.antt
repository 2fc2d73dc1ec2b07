pub mod Balances
pub mod Classes
pub mod Lemmas
pub mod Places
