pub mod After
pub mod FromCauses
pub mod Limits
pub mod Outcomes
pub mod within
