pub mod Changing
pub mod Leaving
pub mod Members
pub mod Places
pub mod Queues
pub mod Rings
