pub mod Objects
pub mod within
