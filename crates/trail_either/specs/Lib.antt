-- Read these first: what contracts of public calls cite.
pub mod Accepted
pub mod Either
pub mod Ended
pub mod Reading
-- What inner contracts cite.
pub mod Ends
