-- Read these first: what contracts of public calls cite.
pub mod Sublist
pub mod Used
pub mod Pruned
-- What inner contracts cite.
pub mod Marks
