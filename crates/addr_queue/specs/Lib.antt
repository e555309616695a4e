pub mod Changes
pub mod Queue
pub mod Slots
pub mod within
