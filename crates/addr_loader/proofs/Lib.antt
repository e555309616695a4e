pub mod Fetchers
pub mod Gaining
pub mod Teaming
pub mod Turns
pub mod Working
