-- What the proofs here and those of crates above stand on, and no clause of a public call reaches.
pub mod Standing
