pub mod Homes
pub mod Search
