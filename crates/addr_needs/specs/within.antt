-- What private functions say, and no clause of a public call reaches.
pub mod Names
pub mod Naming
