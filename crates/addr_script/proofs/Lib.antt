pub mod KeyLemmas
pub mod ScriptLaws
pub mod ScriptLemmas
pub mod WordLemmas
