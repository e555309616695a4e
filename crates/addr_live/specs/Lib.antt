pub mod Hands
pub mod LiveText
pub mod Orders
pub mod Plays
pub mod Prepares
pub mod Schemes
pub mod Steps
pub mod Whole
