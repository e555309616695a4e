-- Helpers of the code and of its proofs, which no clause of a public call reaches.
pub mod Put
