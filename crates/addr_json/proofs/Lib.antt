pub mod TreeLemmas
pub mod MemberLemmas
pub mod DigitLemmas
pub mod BackLemmas
pub mod TreeOfLists
