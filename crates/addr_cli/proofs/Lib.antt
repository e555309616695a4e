pub mod ListingLemmas
pub mod LoadLemmas
pub mod OnceLemmas
pub mod OutcomeLemmas
pub mod PlanningLemmas
pub mod ScriptLemmas
pub mod ServingLemmas
pub mod WordLemmas
