pub mod FirstLemmas
pub mod GuidLemmas
pub mod KeyLemmas
pub mod LabelLemmas
pub mod Lists
pub mod RowLemmas
pub mod VariableLemmas
