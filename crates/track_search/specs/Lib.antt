-- What contracts of public calls cite, and what these definitions use.
pub mod Fewest
pub mod FewestBy
pub mod Kept
pub mod Limit
pub mod LimitBy
pub mod Lowest
-- What inner contracts and proofs alone cite.
pub mod Bare
pub mod First
pub mod InOrder
pub mod Uncrowded
pub mod Visit
