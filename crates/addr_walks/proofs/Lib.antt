pub mod BelowLemmas
pub mod ClosureLemmas
pub mod FoundLemmas
pub mod Lists
pub mod MarkLemmas
pub mod Walking
pub mod Zips
pub mod Numbering
