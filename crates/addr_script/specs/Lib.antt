pub mod Causes
pub mod Commands
pub mod Replies
pub mod ScriptParts
pub mod Scripts
