pub mod Format
pub mod Faults
pub mod Seen
pub mod Written
pub mod Sizes
pub mod Rows
