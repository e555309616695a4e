pub mod Limits
pub mod Sizes
pub mod Sides
pub mod States
pub mod Catalogues
pub mod within
