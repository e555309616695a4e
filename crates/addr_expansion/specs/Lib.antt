pub mod Expansion
pub mod Extents
pub mod Meaning
pub mod Replies
