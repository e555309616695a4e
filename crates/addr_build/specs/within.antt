-- Helpers of the code and of its proofs, which no clause of a public call reaches.
pub mod Building
pub mod FromCauses
pub mod FromDepot
pub mod Index
pub mod Preparing
pub mod Testing
