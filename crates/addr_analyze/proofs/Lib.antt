pub mod ListLemmas
pub mod MemberLemmas
pub mod CopyLemmas
pub mod DuplicateLemmas
pub mod IsolationLemmas
