pub mod Cells
pub mod Circuit
pub mod Faults
pub mod Measures
pub mod Row
pub mod Structs
