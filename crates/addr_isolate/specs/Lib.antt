pub mod Document
pub mod Shallow
pub mod Isolating
pub mod Leaving
