pub mod Cuts
pub mod LayerTable
pub mod Spelled
pub mod Tables
pub mod Walks
