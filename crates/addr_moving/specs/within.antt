-- What the proofs stand on, and no clause of a public call reaches.
pub mod Gathered
