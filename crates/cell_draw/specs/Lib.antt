-- What contracts of public calls cite, and what these definitions use.
pub mod Bounds
pub mod Drawings
pub mod Extracted
pub mod Faults
pub mod Frame
pub mod Framed
pub mod Laid
pub mod Layouts
pub mod Measures
pub mod Named
pub mod Shapes
pub mod Shown
pub mod Small
pub mod Sound
