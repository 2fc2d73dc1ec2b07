pub mod Extracted
pub mod Agreed
pub mod RowEnds
pub mod Rules
