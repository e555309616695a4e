pub mod ListLemmas
pub mod ByteLemmas
pub mod OpenedLemmas
pub mod FaultLemmas
pub mod OneLemmas
