pub mod Chain
pub mod Folder
pub mod Gives
pub mod Memory
pub mod MemoryRules
