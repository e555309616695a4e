pub mod NameLemmas
pub mod NamingLemmas
pub mod NumberLemmas
pub mod RowLemmas
pub mod NeedLemmas
