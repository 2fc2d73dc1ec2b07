pub mod Asked
pub mod Desks
pub mod Reading
pub mod Results
pub mod WholeFiles
