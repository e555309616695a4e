pub mod SameBundle
pub mod Naming
pub mod Placement
pub mod LongNames
pub mod Classes
pub mod Laws
pub mod BundleNames
