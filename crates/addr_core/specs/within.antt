pub mod Courses
pub mod Kept
pub mod Prepare
pub mod Wanting
