pub mod Inner
pub mod Ownership
pub mod Patched
pub mod Region
pub mod RegionLends
pub mod Word
pub mod Zeros
