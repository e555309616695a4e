-- What private functions say, and no clause of a public call reaches.
pub mod Anew
pub mod Assets
pub mod Groups
pub mod Holders
pub mod Leasts
pub mod Looks
pub mod Rows
pub mod Split
pub mod Told
pub mod Changing
pub mod Homes
pub mod Ways
pub mod Known
pub mod Walked
