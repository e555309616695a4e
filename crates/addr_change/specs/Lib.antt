pub mod Printing
pub mod Building
pub mod ResolvedText
pub mod Resolving
pub mod CheckText
pub mod Checking
pub mod Updating
