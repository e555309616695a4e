-- Helpers of the code and of its proofs, which no clause of a public call reaches.
pub mod Told
pub mod Writing
pub mod Outside
pub mod FromPlan
pub mod Owners
pub mod Deps
pub mod Fixed
pub mod Stated
