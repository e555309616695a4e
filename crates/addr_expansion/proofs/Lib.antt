pub mod ExpansionLemmas
pub mod MeaningLemmas
pub mod OutcomeLemmas
pub mod PigeonLemmas
pub mod ReplyLemmas
pub mod StableLemmas
