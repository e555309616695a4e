pub mod WrittenLemmas
pub mod BackLemmas
pub mod NamedLaws
