pub mod Outs
pub mod Whole
