-- What contracts of public calls cite, and what these definitions stand on.
pub mod Behind
pub mod Ended
pub mod Searched
pub mod Filling
pub mod First
pub mod Proof
pub mod Reached
pub mod Search
pub mod Units
pub mod Visit
-- What inner contracts and proofs alone cite.
pub mod Line
pub mod Lists
pub mod Order
