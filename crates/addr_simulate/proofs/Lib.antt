mod WalkLemmas
pub mod LineLemmas
pub mod PlayLemmas
pub mod ReadLemmas
