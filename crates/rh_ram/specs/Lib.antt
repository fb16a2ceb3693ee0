pub mod Due
pub mod Told
pub mod Inner
