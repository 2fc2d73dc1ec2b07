pub mod NotAccepted
pub mod Courses
