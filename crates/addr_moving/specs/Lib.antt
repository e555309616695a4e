pub mod Kept
pub mod within
