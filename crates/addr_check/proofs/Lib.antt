pub mod CheckLemmas
pub mod OneLemmas
