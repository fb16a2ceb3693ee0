pub mod Limits
pub mod Shares
pub mod Areas
pub mod Plain
pub mod Starts
pub mod Tracts
pub mod Inner
