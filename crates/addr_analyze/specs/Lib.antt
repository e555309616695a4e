pub mod Duplicates
pub mod Counting
pub mod Isolation
