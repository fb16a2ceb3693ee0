pub mod Kept
pub mod Zeros
