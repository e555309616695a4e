pub mod Walks
pub mod Rows
pub mod Closure
pub mod Once
pub mod Places
pub mod Marks
