pub mod BraceLemmas
pub mod EscapeLemmas
pub mod FileLemmas
pub mod HexLemmas
pub mod TokenLemmas
