pub mod Fields
pub mod Firsts
pub mod Lookups
pub mod Places
pub mod Readings
pub mod Variables
