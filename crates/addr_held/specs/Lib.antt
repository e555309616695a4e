pub mod Opening
pub mod FromDepot
pub mod Laws
pub mod within
