pub mod Checking
pub mod Comparing
pub mod FromCauses
pub mod Laws
pub mod within
