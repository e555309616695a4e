pub mod NameLemmas
pub mod GatheredLemmas
