pub mod Held
pub mod Lent
pub mod Numbers
pub mod OneHistory
pub mod Queue
pub mod Steps
